-- The laws over rows, states, runs and the reader of reports, as statements.
pub mod RowLaws
pub mod StateLaws
pub mod RunLaws
pub mod CheckLaws
pub mod LayerLaws
pub mod UpgradeLaws
