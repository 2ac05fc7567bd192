pub mod Grammar
pub mod Numbers
pub mod Table
pub mod Command
pub mod Asked
pub mod Form
pub mod Front
