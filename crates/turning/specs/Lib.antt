-- What the inner functions of Turn promise.
pub mod Put
