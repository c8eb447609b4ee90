-- A field as it is looked up, passed on from `cuts`. Assumes nothing.
pub use Rattle.cuts.specs.Handed.{part_of, span_of}
unfoldable pub use Rattle.cuts.specs.Handed.{part_under, within}
