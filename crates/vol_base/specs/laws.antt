pub mod BytesLaws
pub mod NumberBlockLaws
pub mod PackingLaws
pub mod RangeLaws
pub mod ResultLaws
pub mod RowLaws
