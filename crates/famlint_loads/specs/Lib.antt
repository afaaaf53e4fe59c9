pub mod CertificateLoads
pub mod Contents
pub mod Faults
pub mod Loads
pub mod ProductLines
pub mod Selected
