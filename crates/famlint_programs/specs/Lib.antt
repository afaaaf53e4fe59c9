pub mod ProgramAnswers
pub mod Report
pub mod RunText
pub mod AnalysisOptions
