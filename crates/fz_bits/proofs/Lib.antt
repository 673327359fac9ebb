pub mod BitsLemmas
pub mod BytesLemmas
pub mod OrLemmas
pub mod ReaderLemmas
pub mod WriterLemmas
