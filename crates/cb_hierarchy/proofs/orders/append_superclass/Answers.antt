use Rattle.std.proofs.Common.{◌≡◌, ℕ, ◌<◌, List, [], ◌++◌, length, refl, sym, ap, subst, ◌∙◌, arith}
use Rattle.std.specs.List.{Contains, flat_map}
use Rattle.std.proofs.lemmas.List.{append-nil, get_or_read}
use Rattle.cb_hierarchy.specs.Inner.{AreDistinct, list_at}
use Rattle.cb_hierarchy.specs.Classes.{listed}
use Rattle.cb_hierarchy.proofs.orders.append_superclass.Goals as goal

pub bounds-lists-parent : goal.bounds-lists-parent
bounds-lists-parent c =
    c.requires c.in-Some.parent (subst (λ (list : List ℕ). Contains list c.in-Some.parent) (sym (ap listed c.in-Some.is)) (0, omega arith, refl))

pub returns-in_ok-append : goal.returns-in_ok-append
returns-in_ok-append c =
    λ taken are.
    let lists = c.args.lists.now in
    let parent = c.in-Some.parent in
    let within : parent < length lists = c.requires parent (subst (λ (list : List ℕ). Contains list parent) (sym (ap listed c.in-Some.is)) (0, omega arith, refl)) in
    let read : c.as_slice.result.now ≡ list_at lists parent = c.as_slice.ensures ∙ get_or_read lists parent c.index-lists-parent.result within c.index-lists-parent.is [] in
    let one : flat_map (list_at lists) (listed c.args.class.now.superclass) ≡ list_at lists parent = ap (λ (above : _). flat_map (list_at lists) (listed above)) c.in-Some.is ∙ append-nil (list_at lists parent) in
    subst (λ (list : List ℕ). AreDistinct (taken ++ list) c.append.new.self.numbers c.append.new.self.marks) (read ∙ sym one) (c.in_ok-append.ensures taken are)
