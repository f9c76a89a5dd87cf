pub mod PackerLaws
pub mod RunLaws
