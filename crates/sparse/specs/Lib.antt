pub mod Trees
pub mod Form
pub mod Sparse
pub mod SparseLaws
