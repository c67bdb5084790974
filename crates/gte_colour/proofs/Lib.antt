pub mod LightsLines
pub mod Normal
pub mod CueingLines
