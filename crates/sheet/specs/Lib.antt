-- What the inner functions of the sheet's calls promise.
pub mod Response
