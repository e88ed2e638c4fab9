pub mod Replying
pub mod Implied
mod ImpliedAccount
mod ImpliedAhead
mod ImpliedChanges
mod ImpliedCourse
mod ImpliedHeads
mod ImpliedItems
mod ImpliedPlaces
mod ImpliedShadow
mod ImpliedShown
mod ImpliedStands
mod ImpliedSteps
mod ImpliedTurn
mod ImpliedWithin
pub mod Logging
pub mod Meeting
mod PlainRead
pub mod Moving
pub mod PlainScript
pub mod Duties
pub mod Entering
pub mod Exact
mod ExactAhead
mod ExactEntries
pub mod ExactFits
mod ExactKnown
pub mod ExactLimits
mod ExactNext
mod ExactOnce
mod ExactPlaces
mod ExactRuns
mod ExactScript
mod ExactSteps
mod ExactTurns
mod ExactUpdates
pub mod Finding
pub mod Judged
pub mod Keeps
pub mod Keys
pub mod LogAhead
pub mod Looking
pub mod Marking
pub mod Placed
pub mod Parts
pub mod Passed
pub mod Rising
pub mod Shadowing
pub mod Stamping
pub mod Taking
pub mod Vectors
pub mod Verdicts
pub mod Within
pub mod Walking
