mod Weaving
pub mod ReadBack
pub mod KindLaws
pub mod Parts
pub mod Words
pub mod RowLaws
pub mod Outcomes
pub mod PulledLaws
pub mod ReplyLaws
pub mod VerdictLaws
pub mod EndingLaws
pub mod TranscriptLaws
pub mod TransmitLaws
