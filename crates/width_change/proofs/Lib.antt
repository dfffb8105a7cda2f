pub mod Origins
pub mod Results
pub mod Transferred
pub mod Leaks
pub mod Theorems
