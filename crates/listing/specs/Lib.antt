-- What the contracts cite beside the profile's definitions.
pub mod Written
