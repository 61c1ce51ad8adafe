mod Lists
mod Pairs
mod Installs
