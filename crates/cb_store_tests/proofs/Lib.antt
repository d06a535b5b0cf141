mod CellLaws
mod Empty
mod MapHeaps
mod MarkLaws
