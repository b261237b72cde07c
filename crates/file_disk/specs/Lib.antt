pub mod StoredDisk
pub mod VolumeFile
