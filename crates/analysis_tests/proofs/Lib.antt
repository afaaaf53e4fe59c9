mod Lists
mod NumberedTrees
