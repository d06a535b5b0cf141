use Rattle.std.proofs.Common.{◌≡◌, ℕ, ◌+◌, ◌<◌, List, length, get_or, map, sym, subst, ap, ◌∙◌, arith}
use Rattle.std.proofs.lemmas.List.{length-map}
use Rattle.std.specs.List.{Contains}
use Rattle.cb_hierarchy.specs.Classes.{parents}
use Rattle.cb_hierarchy.specs.InnerRows.{AreOfRank, how_many}
use Rattle.cb_hierarchy.proofs.Ranked.{AreOrdered, low, ordered_all, ordered_more, ordered_none, rising}
use Rattle.cb_hierarchy.proofs.parents_first.parents_first.Goals as goal

pub loop-rank-init : goal.loop-rank-init
loop-rank-init c = subst (AreOrdered c.args.classes.now c.in_ok-ranks.ranks.items 0) (sym c.new-order.ensures) (ordered_none c.args.classes.now c.in_ok-ranks.ranks.items)

pub loop-rank-preserved : goal.loop-rank-preserved
loop-rank-preserved c =
    let classes = c.args.classes.now in
    let rows = c.args.ancestors.now in
    let ranks = c.in_ok-ranks.ranks.items in
    let rank = c.loop-rank.rank in
    let more = c.in_ok-push_of_rank.ensures in
    let up : (class parent : ℕ) → Contains (parents classes class) parent → get_or ranks parent 0 < get_or ranks class 0 =
    subst (λ (ranks : List ℕ). (class parent : ℕ) → Contains (parents classes class) parent → get_or ranks parent 0 < get_or ranks class 0) (sym c.in_ok-ranks.ensures)
    (rising classes c.requires.classes c.requires.acyclic rows c.requires.square c.requires.marks) in
    let long : length ranks ≡ length classes = ap length c.in_ok-ranks.ensures ∙ length-map rows how_many ∙ c.requires.square.as_many in
    let of : AreOfRank ranks rank (length classes) more.0 = subst (λ n. AreOfRank ranks rank n more.0) long (subst (λ (ranks : List ℕ). AreOfRank ranks rank (length ranks) more.0) c.as_slice.ensures.value more.2) in
    subst (AreOrdered classes ranks (rank + 1)) (sym more.1) (ordered_more classes c.requires.classes ranks up rank c.loop-rank.order more.0 c.loop-rank.invariant of)

pub returns : goal.returns
returns c =
    let classes = c.args.classes.now in
    let rows = c.args.ancestors.now in
    let ranks = c.in_ok-ranks.ranks.items in
    let all : c.loop-rank.rank ≡ length classes = omega arith in
    let done : AreOrdered classes (map how_many rows) (length classes) c.loop-rank.order =
    subst (λ (ranks : List ℕ). AreOrdered classes ranks (length classes) c.loop-rank.order) c.in_ok-ranks.ensures (subst (λ n. AreOrdered classes ranks n c.loop-rank.order) all c.loop-rank.invariant) in
    ordered_all classes (map how_many rows) c.loop-rank.order
    (rising classes c.requires.classes c.requires.acyclic rows c.requires.square c.requires.marks)
    (low classes c.requires.classes c.requires.acyclic rows c.requires.square c.requires.marks) done
