pub mod DtenLaws
pub mod StateLaws
pub mod Silence
pub mod ReadLaws
pub mod WriteLaws
pub mod ClearLaws
pub mod Obeyed
