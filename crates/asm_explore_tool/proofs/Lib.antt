mod FilesInTurn
mod GivenSources
mod InputOnce
pub mod NoFiles
mod NoReports
mod OutputBytes
mod ReportStatuses
mod ToldReports
