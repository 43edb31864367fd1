mod JobSteps
mod Ranking
mod ReportSteps
mod SumSteps
mod Telling
