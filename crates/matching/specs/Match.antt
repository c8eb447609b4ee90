-- The entry of a certificate list that equals given bytes, passed on from `searches`. Assumes nothing.
pub use Rattle.searches.specs.Match.{of_seen, bytes_at, of_part}
unfoldable pub use Rattle.searches.specs.Match.{entry_at, listed_at, match_under}
