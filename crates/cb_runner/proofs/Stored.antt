-- A new store of a program, in which all sites lie in one part.
use Rattle.std.proofs.Common.{◌≡◌, ◌∙◌, ◌++◌, ◌+◌, ◌<◌, ◌≤◌, ap, arith, map, nat_lt, refl, replicate, subst, sym, zero, suc, ℕ, List, [], ◌∷◌, length, true, IsTrue}
use Rattle.std.proofs.lemmas.Bool.{lt-ltb}
use Rattle.std.proofs.lemmas.List.{length-append, length-map, length-replicate}
use Rattle.std.specs.Prelude.{slice_index}
use Rattle.cb_classfile.specs.declared.class.ClassFile.{ClassFile}
use Rattle.cb_collector.specs.Held.{Held, IsNew, known_in}
use Rattle.cb_dag.specs.Parts.{Condensed}
use Rattle.cb_heap.specs.Storage.{Settings}
use Rattle.cb_interp.specs.Fit.{ShapesOf}
use Rattle.cb_io.specs.declared.sure_sink.SureSink.{SureSink}
use Rattle.cb_kinds.specs.Basics.{kind_number}
use Rattle.cb_link.specs.Having.{site_kinds}
use Rattle.cb_link.specs.Judging.{site_count, site_limit}
use Rattle.cb_link.specs.Making.{fixed_kinds, kinds, makings}
use Rattle.cb_link.specs.Program.{Linked, linked, linked_site}
use Rattle.cb_link.specs.declared.linked.Site.{Site}
use Rattle.cb_partheap.specs.Heaps.{Heap, may_refer, objects_in, part_of, settings_in}
use Rattle.cb_partheap.specs.Made.{IsMade}
use Rattle.cb_plain.specs.declared.shape.Shape.{Shape}
use Rattle.cb_runner.specs.Executing.{IsFirst, IsOfProgram, all_in_one, one_part, untold}
use Rattle.cb_runner.specs.Running.{known_first}
use Rattle.cb_runner.specs.Words.{Run}
use Rattle.cb_safety.specs.Linked.{IsLinked}

-- the sites of a linked program: the machine's own, and no more than there may be
count_is : (classes : List ClassFile) (main : List ℕ) (method : ℕ) → length (site_kinds (linked classes main method)) ≡ site_count classes
count_is classes main method =
    let program = linked classes main method in
    let fixed : length program.fixed ≡ length fixed_kinds = length-map fixed_kinds (kind_number (kinds classes)) in
    let sites : length program.sites ≡ length (makings classes) = length-map (makings classes) (linked_site (kinds classes)) in
    let kinds : length (map (λ (site : Site). site.kind) program.sites) ≡ length program.sites = length-map program.sites (λ (site : Site). site.kind) in
    length-append program.fixed (map (λ (site : Site). site.kind) program.sites) ∙ ap (λ count. count + length (map (λ (site : Site). site.kind) program.sites)) fixed
    ∙ ap (λ count. length fixed_kinds + count) (kinds ∙ sites)

sites_are : (program : Linked) → (is_linked : IsLinked program) → (classes : List ClassFile) × (site_count classes ≤ site_limit) × (length (site_kinds program) ≡ site_count classes)
sites_are program is_linked =
    let classes : List ClassFile = is_linked.library ++ is_linked.more in
    (classes, is_linked.good.sites, ap (λ (program : Linked). length (site_kinds program)) is_linked.all ∙ count_is classes is_linked.main is_linked.method)

pub some_sites : (program : Linked) → IsLinked program → 0 < length (site_kinds program)
some_sites program is_linked =
    let (classes, few, is) = sites_are program is_linked in
    let own : length fixed_kinds ≡ 32 = refl in
    omega (arith, is, own)

pub few_sites : (program : Linked) → IsLinked program → length (site_kinds program) ≤ 16384
few_sites program is_linked =
    let (classes, few, is) = sites_are program is_linked in
    omega (arith, is, few)

-- each lies in the part
zeros : (count site : ℕ) → slice_index (replicate count 0) site ≡ 0
zeros zero site = refl
zeros (suc count) zero = refl
zeros (suc count) (suc site) = zeros count site

module _ (run : Run) (program : Linked) (shapes : List Shape) (graph : Condensed) (heap : Heap) (store : Held SureSink) (shaped : ShapesOf program shapes)
    (one : graph ≡ one_part program) (made : IsMade shapes graph.part_of graph run.blocks heap) where
  sites_so : heap.site_parts ≡ all_in_one program
  sites_so = made.sites_are ∙ ap (λ (graph : Condensed). graph.part_of) one

  refers : (one other : ℕ) → may_refer heap.edges (part_of heap.site_parts one) (part_of heap.site_parts other) ≡ true
  refers one other =
      let count : ℕ = length (site_kinds program) in
      let first : part_of heap.site_parts one ≡ 0 = ap (λ parts. part_of parts one) sites_so ∙ zeros count one in
      let second : part_of heap.site_parts other ≡ 0 = ap (λ parts. part_of parts other) sites_so ∙ zeros count other in
      rw (first, second) refl

  knows_so : (site : ℕ) → site < length (site_kinds program) → IsTrue (nat_lt site (length heap.site_parts))
  knows_so site low =
      let count : length heap.site_parts ≡ length (site_kinds program) = ap (λ parts. length parts) sites_so ∙ length-replicate (length (site_kinds program)) 0 in
      subst (λ (count : ℕ). IsTrue (nat_lt site count)) (sym count) (lt-ltb site (length (site_kinds program)) low)

  of_so : IsOfProgram program (settings_in heap)
  of_so = record { shaped = subst (ShapesOf program) (sym made.shapes_are) shaped; knows = knows_so; allows = refers }

  pub first_store : (output : SureSink) → IsNew heap graph output store → IsFirst run program store
  first_store output new = record {
    of = subst (λ (heap : Heap). IsOfProgram program (settings_in heap)) (sym new.heap_is) of_so;
    empty = ap objects_in new.heap_is ∙ made.objects;
    known = known_so;
  } where
    known_so : known_in untold store ≡ known_first run program
    known_so = rw (new.heap_is, new.graph_is, new.facts_are, new.none_asked, new.none_collected, new.tally_is, made.memory, sites_so, one) refl
