-- Items that are put into a buffer one after the other: as the crate of the image proves it.
pub use Rattle.trac_image.proofs.Buffers.{laid-enough, laid-front, laid-mapped, laid-next, laid-over}
