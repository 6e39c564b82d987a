mod Accepting
mod Listed
mod Messages
mod Prepared
mod Published
mod Results
mod Shown
mod Texts
