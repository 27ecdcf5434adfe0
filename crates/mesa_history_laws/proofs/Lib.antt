pub mod AnswersOver
pub mod Batches
pub mod Begun
pub mod Checks
pub mod Counting
pub mod Expiry
pub mod FoldLaw
pub mod FromTheFold
pub mod Kept
pub mod KeyBytes
pub mod LaterPages
pub mod LaterRelations
pub mod LawAlters
pub mod LawLoads
pub mod LawTables
pub mod Lifting
pub mod Lineages
pub mod Moves
pub mod NoPages
pub mod Pages
pub mod Pinning
pub mod Printing
pub mod QueryPages
pub mod Ranges
pub mod ReachedAnswers
pub mod ReachedPages
pub mod Recasts
pub mod Refusing
pub mod RelationNames
pub mod Resuming
pub mod Staying
pub mod StayingAnswers
pub mod StoredRows
pub mod Telling
pub mod TurnKinds
pub mod Turns
pub mod WellFormed
pub mod Wholes
pub mod Closing
pub mod Settled
mod Undated
mod Standing
mod Walking
mod OneSession
pub mod OneText
