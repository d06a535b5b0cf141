use Rattle.std.proofs.Common.{inl, inr}
use Rattle.cb_asm_line.proofs.instruction_words.form_operand.Goals as goal

pub returns-in-Plain : goal.returns-in-Plain
returns-in-Plain c = rw c.in-Plain.is c.no_operand.ensures

pub returns-in-ArrayCode : goal.returns-in-ArrayCode
returns-in-ArrayCode c = rw c.in-ArrayCode.is c.array_operand.ensures

pub returns-in-Dimensions : goal.returns-in-Dimensions
returns-in-Dimensions c = rw c.in-Dimensions.is c.dimensions_operand.ensures

pub returns-in-Table : goal.returns-in-Table
returns-in-Table c = rw c.in-Table.is c.table_operand.ensures

pub returns-in-Lookup : goal.returns-in-Lookup
returns-in-Lookup c = rw c.in-Lookup.is c.lookup_operand.ensures

pub returns-in-Byte : goal.returns-in-Byte
returns-in-Byte c = elim c.in-Byte.is [ inl is ↦ rw is c.number_operand.ensures | inr is ↦ rw is c.number_operand.ensures ]

pub returns-in-PoolByte : goal.returns-in-PoolByte
returns-in-PoolByte c = elim c.in-PoolByte.is [ inl is ↦ rw is c.kind_operand.ensures | inr other ↦ elim other [ inl is ↦ rw is c.kind_operand.ensures | inr is ↦ rw is c.kind_operand.ensures ] ]

pub returns-in-Local : goal.returns-in-Local
returns-in-Local c = elim c.in-Local.is [ inl is ↦ rw is c.local_operand.ensures | inr is ↦ rw is c.local_operand.ensures ]

pub returns-in-Increase : goal.returns-in-Increase
returns-in-Increase c = elim c.in-Increase.is [ inl is ↦ rw is c.increase_operand.ensures | inr is ↦ rw is c.increase_operand.ensures ]

pub returns-in-Branch : goal.returns-in-Branch
returns-in-Branch c = elim c.in-Branch.is [ inl is ↦ rw is c.branch_operand.ensures | inr is ↦ rw is c.branch_operand.ensures ]
