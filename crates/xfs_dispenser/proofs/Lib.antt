pub mod BeginLaws
pub mod CarryLaws
mod CommandLaws
pub mod CompleteLaws
mod CurrencyLaws
pub mod DenyLaws
mod GrantLaws
mod PayloadLaws
pub mod PlanLaws
mod SendLaws
pub mod StackLaws
pub mod StepLaws
mod StorageLaws
pub mod TurnLaws
mod UnitLaws
pub mod WorkLaws
