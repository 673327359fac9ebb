mod BoxLemmas
mod FrontLemmas
mod ImageLemmas
mod KindLemmas
mod PairLemmas
mod RangeLemmas
mod SumLemmas
mod TileLemmas
