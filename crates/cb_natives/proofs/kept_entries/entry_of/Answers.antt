use Rattle.std.proofs.Common.{[], ◌∷◌, subst, w32, w64, ℤ}
use Rattle.std.proofs.lemmas.Int.{to_z-of_z}
use Rattle.cb_library.specs.declared.native.Native.TheVariants as natives
use Rattle.cb_plain.specs.declared.value.Value.TheVariants as values
use Rattle.cb_natives.specs.MakingKept.{Finds}
use Rattle.cb_natives.proofs.KeptMade.{finds_as}
use Rattle.cb_natives.proofs.kept_entries.entry_of.Goals as goal

pub returns-in-IntegerValueOf : goal.returns-in-IntegerValueOf
returns-in-IntegerValueOf g c =
    let objects = (g.S.Store.storage c.args.store.now).kept in
    finds_as objects (g.S.Store.storage c.args.store.now).index c.args.native natives.IntegerValueOf c.args.arguments.now (values.Int c.int.result ∷ []) c.integer_entry.result c.in-IntegerValueOf.is c.int.ensures
    (subst (λ (number : ℤ). Finds objects natives.IntegerValueOf (values.Int number ∷ []) c.integer_entry.result) (to_z-of_z w32 c.int.result (record { sfits = c.int.type_inv }))
    (c.integer_entry.ensures objects))

pub returns-in-LongValueOf : goal.returns-in-LongValueOf
returns-in-LongValueOf g c =
    let objects = (g.S.Store.storage c.args.store.now).kept in
    finds_as objects (g.S.Store.storage c.args.store.now).index c.args.native natives.LongValueOf c.args.arguments.now (values.Long c.long.result ∷ []) c.long_entry.result c.in-LongValueOf.is c.long.ensures
    (subst (λ (number : ℤ). Finds objects natives.LongValueOf (values.Long number ∷ []) c.long_entry.result) (to_z-of_z w64 c.long.result (record { sfits = c.long.type_inv }))
    (c.long_entry.ensures objects))

pub returns-in-CharacterValueOf : goal.returns-in-CharacterValueOf
returns-in-CharacterValueOf g c =
    let objects = (g.S.Store.storage c.args.store.now).kept in
    finds_as objects (g.S.Store.storage c.args.store.now).index c.args.native natives.CharacterValueOf c.args.arguments.now (values.Int c.int-in-CharacterValueOf.result ∷ []) c.character_entry.result c.in-CharacterValueOf.is c.int-in-CharacterValueOf.ensures
    (subst (λ (number : ℤ). Finds objects natives.CharacterValueOf (values.Int number ∷ []) c.character_entry.result) (to_z-of_z w32 c.int-in-CharacterValueOf.result (record { sfits = c.int-in-CharacterValueOf.type_inv }))
    (c.character_entry.ensures objects))

pub returns-in-BooleanValueOf : goal.returns-in-BooleanValueOf
returns-in-BooleanValueOf g c =
    let objects = (g.S.Store.storage c.args.store.now).kept in
    finds_as objects (g.S.Store.storage c.args.store.now).index c.args.native natives.BooleanValueOf c.args.arguments.now (values.Int c.int-in-BooleanValueOf.result ∷ []) c.boolean_entry.result c.in-BooleanValueOf.is c.int-in-BooleanValueOf.ensures
    (subst (λ (number : ℤ). Finds objects natives.BooleanValueOf (values.Int number ∷ []) c.boolean_entry.result) (to_z-of_z w32 c.int-in-BooleanValueOf.result (record { sfits = c.int-in-BooleanValueOf.type_inv }))
    (c.boolean_entry.ensures objects))
