mod AheadLemmas
mod ChunksLemmas
mod FramingLemmas
mod ReplyLemmas
mod WrittenLemmas
