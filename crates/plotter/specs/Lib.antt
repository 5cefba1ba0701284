pub mod Plotter
