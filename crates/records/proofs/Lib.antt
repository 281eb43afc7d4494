pub mod RecordLaws
pub mod ShownLaws
pub mod SpelledLaws
pub mod EachLaws
pub mod Reading
pub mod KindTests
