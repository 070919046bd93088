mod Many
mod Queries
mod Triples
mod Whole
