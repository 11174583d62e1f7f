-- What the proofs of several functions use, here and above.
pub mod Bodies
pub mod Numbers
