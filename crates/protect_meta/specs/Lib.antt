pub mod Pages
pub mod PageRow
pub mod Table
pub mod FileRows
pub mod FileTable
