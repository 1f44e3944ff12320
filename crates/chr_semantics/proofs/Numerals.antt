-- The digits of std's `decimal`, for the examples, which compute them.
pub use Rattle.std.specs.Fmt.{digits}
