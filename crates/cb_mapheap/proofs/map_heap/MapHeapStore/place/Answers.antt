use Rattle.std.proofs.Common.{◌≡◌, ◌+◌, ◌≤◌, ◌<◌, ◌^◌, IsTrue, sym, subst, arith, length}
use Rattle.cb_plain.specs.State.{words_of}
use Rattle.cb_plain.specs.Requests.{words_at}
use Rattle.cb_heap.specs.Shaped.{has_size}
use Rattle.cb_mapheap.specs.Placed.{Placed}
use Rattle.cb_mapheap.proofs.Calls.{count_now, enough, placed_objects, placed_serial, placed_store}
use Rattle.cb_mapheap.proofs.map_heap.MapHeapStore.place.Goals as goal

pub write-requires : goal.write-requires
write-requires c =
    let fits = subst (λ (now : Placed). words_of c.args.size ≤ words_at now.granted c.args.site) (sym c.self.view_is) c.requires.granted in
    omega (arith, enough c.self.inside.granted c.args.site (words_of c.args.size) fits, c.self.invariant.word_room)

pub push_reserved-requires : goal.push_reserved-requires
push_reserved-requires c =
    let fits = subst (λ (now : Placed). words_of c.args.size ≤ words_at now.granted c.args.site) (sym c.self.view_is) c.requires.granted in
    omega (arith, enough c.self.inside.granted c.args.site (words_of c.args.size) fits, c.self.invariant.start_room, c.self.inside.starts.ok)

pub invariant_of-self : goal.invariant_of-self
invariant_of-self c =
    let fits = subst (λ (now : Placed). words_of c.args.size ≤ words_at now.granted c.args.site) (sym c.self.view_is) c.requires.granted in
    let shaped = subst (λ (now : Placed). IsTrue (has_size now.shapes c.args.kind c.args.size)) (sym c.self.view_is) c.requires.shaped in
    let kind : c.args.kind < 2 ^ 32 = omega arith in
    let site : c.args.site < 2 ^ 32 = omega arith in
    let serial : c.len.result + 1 ≡ length c.self.inside.starts.items + 1 = omega (arith, c.len.ensures, c.self.inside.starts.ok) in
    let start : c.len-start.result ≡ length c.self.inside.words.items = omega (arith, c.len-start.ensures, c.self.inside.words.ok) in
    placed_store c.args.site c.args.kind c.args.size (c.len.result + 1) c.len-start.result _ _ _ _ _ c.self.invariant kind site shaped fits serial start
    c.push_reserved.ensures.items c.write.ensures.items c.spend.ensures c.push_reserved.ensures.capacity c.write.ensures.capacity

pub returns-clause-kept : goal.returns-clause-kept
returns-clause-kept c =
    let kind : c.args.kind < 2 ^ 32 = omega arith in
    placed_objects c.args.site c.args.kind c.args.size (c.len.result + 1) c.len-start.result _ _ c.self.invariant c.self.view_is kind c.requires.shaped c.push_reserved.ensures.items c.write.ensures.items

pub returns-clause-serial : goal.returns-clause-serial
returns-clause-serial c =
    let count = count_now c.self.inside.starts.items c.self.inside.words.items c.self.view_is in
    placed_serial c.len.result c.args.self.now.objects (omega (arith, count, c.len.ensures, c.self.inside.starts.ok))
