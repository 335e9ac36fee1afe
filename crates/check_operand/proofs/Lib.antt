-- The laws and lemmas of crate check_operand, file by file.
pub mod OperandKinds
pub mod Tables
pub mod Shown
pub mod Operands
pub mod Slices
pub mod Passed
pub mod Wires
pub mod Pairs
pub mod Rows
