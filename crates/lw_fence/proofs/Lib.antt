pub mod Common
pub mod api
mod Marks
mod FencesFound
mod CodeLayout
mod Moves
mod Beside
mod Steps
mod Statements
mod SourceToMachine
mod PendingStores
mod Carried
mod ThreadSimulation
mod Simulation
mod MachineToSource
mod Programs
mod CompiledThreads
mod OneProgram
mod NoFence
mod MoreFences
mod SomeProgram
mod Endings
mod Scheduling
