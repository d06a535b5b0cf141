-- What a method overrides, by the visibilities of those between (JVMS §5.4.5).
use Rattle.std.proofs.Common.{◌≡◌, ◌∙◌, eq-eqb, refl, sym, true≢false, ℕ, Bool, true, false, cond, not, ◌&&◌, ◌||◌, List, Option, Some, None}
use Rattle.std.proofs.lemmas.Bool.{eqb-true}
use Rattle.std.specs.Prelude.{slice_get}
use Rattle.cb_hierarchy.specs.declared.class.Class.{Class}
use Rattle.cb_hierarchy.specs.declared.member.Method.{Method}
use Rattle.cb_hierarchy.specs.declared.member.Visibility.{Visibility}
use Rattle.cb_hierarchy.specs.declared.member.Visibility.TheVariants.{Public, Protected, Package, Private}
use Rattle.cb_hierarchy.specs.InnerReaching.{can_override, is_shown, neither_private, opens}
use Rattle.cb_hierarchy.specs.Resolution.{is_private}
use Rattle.cb_hierarchy.specs.Selection.{in_one_package, is_seen, packages, seen}

-- whether a method of a visibility is seen, where it is of that package or not
abbrev seen_if : Visibility → Bool → Bool
seen_if Public same = true
seen_if Protected same = true
seen_if Package same = same
seen_if Private same = false

seen_by : (classes : List Class) (visibility : Visibility) (holder class : ℕ) → is_seen classes visibility holder class ≡ seen_if visibility (in_one_package classes holder class)
seen_by classes Public holder class = refl
seen_by classes Protected holder class = refl
seen_by classes Package holder class = refl
seen_by classes Private holder class = refl

and_false : (a : Bool) → ((a && false) || false) ≡ false
and_false true = refl
and_false false = refl

and_true : (a : Bool) → ((a && true) || false) ≡ a
and_true true = refl
and_true false = refl

same_cond : (a b : Bool) → b ≡ cond a b b
same_cond true b = refl
same_cond false b = refl

absorbed : (a b c d : Bool) → (((a && b) && (c && d)) || (a && d)) ≡ (a && d)
absorbed false b c d = refl
absorbed true true true true = refl
absorbed true true true false = refl
absorbed true true false d = refl
absorbed true false c d = refl

-- one of another method between
table : (one : Bool) (between other : Visibility) (near far all : Bool) → (far ≡ true → near ≡ true → all ≡ true)
    → (((one && seen_if between near) && (not (is_private between) && seen_if other far)) || (one && seen_if other all))
    ≡ cond (is_shown between && far) (one && not (is_private other)) (one && seen_if other all)
table false Public other near true all joined = refl
table false Public other near false all joined = refl
table false Protected other near true all joined = refl
table false Protected other near false all joined = refl
table false Package other near far all joined = refl
table false Private other near far all joined = refl
table true Public Public near true all joined = refl
table true Public Public near false all joined = refl
table true Public Protected near true all joined = refl
table true Public Protected near false all joined = refl
table true Public Package near true all joined = refl
table true Public Package near false all joined = refl
table true Public Private near true all joined = refl
table true Public Private near false all joined = refl
table true Protected Public near true all joined = refl
table true Protected Public near false all joined = refl
table true Protected Protected near true all joined = refl
table true Protected Protected near false all joined = refl
table true Protected Package near true all joined = refl
table true Protected Package near false all joined = refl
table true Protected Private near true all joined = refl
table true Protected Private near false all joined = refl
table true Package Public true far all joined = refl
table true Package Public false far all joined = refl
table true Package Protected true far all joined = refl
table true Package Protected false far all joined = refl
table true Package Package true true all joined = sym (joined refl refl)
table true Package Package true false all joined = refl
table true Package Package false far all joined = refl
table true Package Private true far all joined = refl
table true Package Private false far all joined = refl
table true Private other near far all joined = refl

-- and where that one is the other
table_same : (one : Bool) (other : Visibility) (all itself : Bool)
    → (((one && seen_if other all) && true) || (one && seen_if other all)) ≡ cond (is_shown other && itself) (one && not (is_private other)) (one && seen_if other all)
table_same false Public all true = refl
table_same false Public all false = refl
table_same false Protected all true = refl
table_same false Protected all false = refl
table_same false Package all itself = refl
table_same false Private all itself = refl
table_same true Public all true = refl
table_same true Public all false = refl
table_same true Protected all true = refl
table_same true Protected all false = refl
table_same true Package true itself = refl
table_same true Package false itself = refl
table_same true Private all itself = refl

table_open : (one : Bool) (other : Visibility) (all : Bool) → (((one && seen_if other all) && true) || (one && not (is_private other))) ≡ (one && not (is_private other))
table_open false other all = refl
table_open true Public all = refl
table_open true Protected all = refl
table_open true Package true = refl
table_open true Package false = refl
table_open true Private all = refl

-- packages
joined_packages : (one between other : Option Class) → packages other between ≡ true → packages between one ≡ true → packages other one ≡ true
joined_packages None between (Some other) far near = absurd (none_of between near)
  where
    none_of : (between : Option Class) → packages between None ≡ true → ⊥
    none_of None is = true≢false (sym is)
    none_of (Some between) is = true≢false (sym is)
joined_packages one between None far near = absurd (true≢false (sym far))
joined_packages (Some one) None (Some other) far near = absurd (true≢false (sym far))
joined_packages (Some one) (Some between) (Some other) far near =
    eq-eqb other.package one.package (eqb-true other.package between.package far ∙ eqb-true between.package one.package near)

can_cond : (classes : List Class) (is_open : Bool) (one other : Option Method) → can_override classes is_open one other ≡ cond is_open (neither_private one other) (seen classes one other)
can_cond classes true one other = refl
can_cond classes false one other = refl

between_closed : (classes : List Class) (one between other : Option Method)
    → ((seen classes one between && seen classes between other) || seen classes one other) ≡ cond (opens classes between other) (neither_private one other) (seen classes one other)
between_closed classes None between other = same_cond (opens classes between other) false
between_closed classes (Some one) None other = refl
between_closed classes (Some one) (Some between) None = and_false (seen classes (Some one) (Some between))
between_closed classes (Some one) (Some between) (Some other) =
    (λ i. ((not (is_private one.visibility) && seen_by classes between.visibility between.declared.class one.declared.class i)
    && (not (is_private between.visibility) && seen_by classes other.visibility other.declared.class between.declared.class i))
    || (not (is_private one.visibility) && seen_by classes other.visibility other.declared.class one.declared.class i))
    ∙ table (not (is_private one.visibility)) between.visibility other.visibility (in_one_package classes between.declared.class one.declared.class)
    (in_one_package classes other.declared.class between.declared.class) (in_one_package classes other.declared.class one.declared.class)
    (joined_packages (slice_get classes one.declared.class) (slice_get classes between.declared.class) (slice_get classes other.declared.class))
    ∙ sym (λ i. cond (opens classes (Some between) (Some other)) (neither_private (Some one) (Some other))
    (not (is_private one.visibility) && seen_by classes other.visibility other.declared.class one.declared.class i))

between_open : (classes : List Class) (one between other : Option Method)
    → ((seen classes one between && neither_private between other) || neither_private one other) ≡ neither_private one other
between_open classes None between other = refl
between_open classes (Some one) None other = refl
between_open classes (Some one) (Some between) None = and_false (seen classes (Some one) (Some between))
between_open classes (Some one) (Some between) (Some other) =
    absorbed (not (is_private one.visibility)) (is_seen classes between.visibility between.declared.class one.declared.class) (not (is_private between.visibility)) (not (is_private other.visibility))

-- another one between
pub between_them : (classes : List Class) (is_open : Bool) (one between other : Option Method)
    → ((seen classes one between && can_override classes is_open between other) || can_override classes is_open one other)
    ≡ can_override classes (is_open || opens classes between other) one other
between_them classes true one between other = between_open classes one between other
between_them classes false one between other = between_closed classes one between other ∙ sym (can_cond classes (opens classes between other) one other)

same_closed : (classes : List Class) (one other : Option Method)
    → ((seen classes one other && true) || seen classes one other) ≡ cond (opens classes other other) (neither_private one other) (seen classes one other)
same_closed classes None other = same_cond (opens classes other other) false
same_closed classes (Some one) None = refl
same_closed classes (Some one) (Some other) =
    (λ i. ((not (is_private one.visibility) && seen_by classes other.visibility other.declared.class one.declared.class i) && true)
    || (not (is_private one.visibility) && seen_by classes other.visibility other.declared.class one.declared.class i))
    ∙ table_same (not (is_private one.visibility)) other.visibility (in_one_package classes other.declared.class one.declared.class) (in_one_package classes other.declared.class other.declared.class)
    ∙ sym (λ i. cond (opens classes (Some other) (Some other)) (neither_private (Some one) (Some other))
    (not (is_private one.visibility) && seen_by classes other.visibility other.declared.class one.declared.class i))

same_open : (classes : List Class) (one other : Option Method) → ((seen classes one other && true) || neither_private one other) ≡ neither_private one other
same_open classes None other = refl
same_open classes (Some one) None = refl
same_open classes (Some one) (Some other) =
    (λ i. ((not (is_private one.visibility) && seen_by classes other.visibility other.declared.class one.declared.class i) && true) || neither_private (Some one) (Some other))
    ∙ table_open (not (is_private one.visibility)) other.visibility (in_one_package classes other.declared.class one.declared.class)

-- the other one itself
pub itself_there : (classes : List Class) (is_open : Bool) (one other : Option Method)
    → ((seen classes one other && true) || can_override classes is_open one other) ≡ can_override classes (is_open || opens classes other other) one other
itself_there classes true one other = same_open classes one other
itself_there classes false one other = same_closed classes one other ∙ sym (can_cond classes (opens classes other other) one other)
