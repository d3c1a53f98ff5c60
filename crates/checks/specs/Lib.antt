-- What holds where the checks let a list and a frame pass, and the ports of a flow.
pub mod Fits
pub mod Ports
