use Rattle.std.proofs.Common.{◌≡◌, ◌<◌, arith, subst, length, get_or}
use Rattle.std.proofs.lemmas.List.{get_or_read}
use Rattle.cb_dag.specs.Numbers.{IsNumbered}
use Rattle.cb_dag.proofs.Numberings.{numbered_more}
use Rattle.cb_dag.proofs.numbers.number_parts.Goals as goal

pub loop-root-preserved : goal.loop-root-preserved
loop-root-preserved c =
    let within : c.loop-root.root-index < length c.args.roots.now = omega arith in
    let root : get_or c.args.roots.now c.loop-root.root-index 0 < length c.args.roots.now = c.requires.within c.loop-root.root-index 0 within in
    let inside : get_or c.args.roots.now c.loop-root.root-index 0 < length c.number_root-parts.new.numbers.items = omega (arith, root, c.number_root-parts.ensures.len, c.loop-root.invariant.each) in
    numbered_more c.args.roots.now c.loop-root.root-index c.loop-root.parts c.number_root-parts.result c.loop-root.numbers.items c.number_root-parts.new.numbers.items
    c.loop-root.part_of.items c.push.new.self.items c.index.result.now c.loop-root.invariant within root
    c.number_root-parts.ensures.known c.number_root-parts.ensures.new
    (get_or_read c.number_root-parts.new.numbers.items (get_or c.args.roots.now c.loop-root.root-index 0) c.index.result.now inside c.index.ensures 0)
    c.in_ok-push.ensures.items

pub returns : goal.returns
returns c = subst (λ n. IsNumbered c.args.roots.now n c.loop-root.parts c.loop-root.part_of.items)
    (let all : c.loop-root.root-index ≡ length c.args.roots.now = omega arith in all) c.loop-root.invariant.numbered
