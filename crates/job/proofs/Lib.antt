pub mod Lengths
pub mod Taken
pub mod RoundTrip
pub mod CallsRoundTrip
