pub mod Outboxes
pub mod LinkLengths
pub mod EffectiveFaces
pub mod Chosen
pub mod Soundness
pub mod Handled
pub mod Members
pub mod Shown
mod Contents
mod OneEffect
pub mod LaterMoments
pub mod Requests
pub mod Uses
pub mod PastRecords
pub mod RunSteps
pub mod RunCaches
pub mod Standing
pub mod Histories
pub mod Denials
pub mod Ticks
pub mod Explained
pub mod Once
pub mod Stored
pub mod StoredData
pub mod CachedRuns
pub mod RouteChanges
pub mod LeftRoutes
pub mod RoutesRead
pub mod RunHops
pub mod KeptInterests
pub mod Named
pub mod Tokens
pub mod Origins
pub mod Stores
pub mod OwnNames
pub mod AskedFor
pub mod Possible
pub mod SomeWaiting
pub mod SomeAnswer
pub mod TokensRead
pub mod TokensBack
pub mod Asking
pub mod Deciding
pub mod ReplyLengths
pub mod ForwardSteps
pub mod Openness
pub mod FaceSteps
pub mod GoingOn
pub mod CarriedOut
pub mod Delivered
pub mod Answered
pub mod NewNodes
pub mod ListSteps
pub mod Answering
pub mod Refused
pub mod NackSteps
mod ObjectChanges
mod VerdictsNamed
mod Folds
mod Deliveries
pub mod Headlines
