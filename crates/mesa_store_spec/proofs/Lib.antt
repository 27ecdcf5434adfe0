mod Bodies
mod OneRow
mod SecondEdition
mod AcrossBase
mod DerivedView
mod Regrouped
mod Apart
mod Misfits
mod Damaged
mod Empty
mod Restated
pub mod SameFiles
pub mod OneMore
pub mod Lists
pub mod Contents
pub mod Kept
pub mod Named
pub mod Formed
pub mod SoundRows
pub mod Published
pub mod Swapping
pub mod Tables
pub mod Views
pub mod Altered
pub mod Defaults
pub mod Changes
pub mod Expiring
pub mod Moving
pub mod Agreeing
pub mod Shaping
pub mod ShapedTables
pub mod ShapedBatches
pub mod RecastFits
pub mod ShapedRecasts
pub mod Wholes
pub mod Ids
pub mod Plans
pub mod Rising
pub mod Written
pub mod Lifted
pub mod Sourcing
pub mod Found
pub mod Recasting
pub mod RecastContents
pub mod RecastSoundRows
pub mod RecastSourced
pub mod RecastKept
pub mod AllSourced
pub mod Accepted
pub mod Stating
pub mod StatableRecords
pub mod StatedShape
pub mod CountedRecords
pub mod StatedFits
pub mod Numbering
pub mod Recordable
pub mod RewrittenRanges
pub mod CatalogRewriting
pub mod RecastRules
