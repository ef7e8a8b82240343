pub mod Boots
pub mod Endings
pub mod FleetView
pub mod Lending
