-- Lemmas that other crates use: which stores wait for their drains along a run of items, in any language and on the machine, and what has
-- been executed after a prefix of an order of an x86 test's items.
pub mod Waiting
pub mod X86Waiting
pub mod X86Prefix
