mod Lives
mod Scripts
