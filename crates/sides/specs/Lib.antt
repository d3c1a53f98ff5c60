-- The output side of a frame: Turn, and what holds of a frame and the turned one.
pub mod Turn
pub mod Agreement
