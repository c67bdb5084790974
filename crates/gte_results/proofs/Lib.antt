mod LinesViews
mod VerticesViews
mod ShadesViews
pub mod AveragesViews
