mod Starts
mod Rows
mod Lines
mod Numbers
mod Meaning
mod Shapes
