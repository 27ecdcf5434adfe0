pub mod FilesBoth
pub mod StatedBoth
pub mod RecastBoth
pub mod RecordsBoth
pub mod Room
