-- What stands in a buffer that was filled from the front: as the crate of the image says it.
pub use Rattle.trac_image.specs.Buffers.{laid, laid_from, Lays}
