pub mod AllRuns
