pub mod Operands
pub mod Reads
pub mod Refusals
pub mod RuleNumbers
pub mod Rules
pub mod Table
