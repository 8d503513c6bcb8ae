pub mod SoundOrders
pub mod FewFiles
